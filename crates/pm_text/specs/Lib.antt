pub mod Dump
pub mod Lines
pub mod Report
