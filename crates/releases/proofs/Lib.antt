pub mod Forecasts
pub mod Printing
