pub mod MeasureBook
