pub mod ClockWords
