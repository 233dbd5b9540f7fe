pub mod Report
pub mod DecimalLaws
pub mod ReportLaws
pub mod Single
pub mod Examples
