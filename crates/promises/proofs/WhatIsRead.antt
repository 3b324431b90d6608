-- What is read, from the theorems of map_answer, map, mpeg and paper_readings.
use mathlib.Core.Path.{sym}
use Rattle.map_answer.proofs.Meaning.{code_says}
use Rattle.map.proofs.Most.{map_64}
use Rattle.mpeg.proofs.Meaning.{means}
use Rattle.paper_readings.proofs.Given.{parameters_is}
use Rattle.paper_readings.proofs.Table.{readings_agree}
use Rattle.paper_readings.proofs.Cases.{cases_agree}
use Rattle.paper_readings.proofs.Streams.{computed}
use Rattle.promises.specs.WhatIsRead.{WhatIsRead}

pub what_is_read : WhatIsRead
what_is_read =
    record {
      codes = λ tag n t h. code_says tag n t h;
      parameters = λ v p g. means v p (sym (parameters_is v _ g));
      tracks = λ p b v. map_64 p (λ i. record { fits = b i }) v;
      marked = readings_agree;
      order = cases_agree;
      stream = computed;
    }
