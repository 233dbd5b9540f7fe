pub mod Date
pub mod Day
pub mod DayLaws
pub mod Hand
pub mod Months
pub mod MonthLaws
pub mod Single
