pub mod Symbology
pub mod SymbologyRows
pub mod ParseLaws
pub mod Contents
pub mod DateLaws
pub mod SymbologyFaults
pub mod RowParts
pub mod WidthLaws
