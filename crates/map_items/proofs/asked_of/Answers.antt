use Rattle.plate.proofs.Tests.{tests}
use Rattle.map_items.specs.Judge.{form_of}
use Rattle.map_items.proofs.asked_of.Goals as goal

pub returns-in-64 : goal.returns-in-64
unfolding form_of
returns-in-64 c = search tests

pub returns-in-65-to-69 : goal.returns-in-65-to-69
unfolding form_of
returns-in-65-to-69 c = search tests

pub returns-in_default : goal.returns-in_default
unfolding form_of
returns-in_default c = search tests

pub returns-in_default-2 : goal.returns-in_default-2
unfolding form_of
returns-in_default-2 c = search tests

pub returns-in-76 : goal.returns-in-76
unfolding form_of
returns-in-76 c = search tests

pub returns-in-77 : goal.returns-in-77
unfolding form_of
returns-in-77 c = search tests

pub returns-in_default-tag : goal.returns-in_default-tag
unfolding form_of
returns-in_default-tag c = search tests

pub returns-in_default-tag-2 : goal.returns-in_default-tag-2
unfolding form_of
returns-in_default-tag-2 c = search tests

pub returns-in-78 : goal.returns-in-78
unfolding form_of
returns-in-78 c = search tests

pub returns-in-78-2 : goal.returns-in-78-2
unfolding form_of
returns-in-78-2 c = search tests
