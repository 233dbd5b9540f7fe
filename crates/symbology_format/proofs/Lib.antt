pub mod EachRowLaws
pub mod NameLaws
pub mod PrintLaws
pub mod SpanLaws
pub mod LenientLaws
pub mod SymbologyFaultLaws
