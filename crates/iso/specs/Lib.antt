pub mod DateText
