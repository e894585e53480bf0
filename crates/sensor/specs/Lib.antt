pub mod Sensor
pub mod Maps
