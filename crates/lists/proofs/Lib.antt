pub mod PlaceLaws
pub mod TableLaws
pub mod StoreLaws
pub mod BoolLaws
pub mod SumLaws
pub mod SpanLaws
