pub mod CountedRows
pub mod DemoLemmas
pub mod GeneratedEnd
pub mod SummaryLemmas
