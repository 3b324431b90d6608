pub mod MeasureMap
