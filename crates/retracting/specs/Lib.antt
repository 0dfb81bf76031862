pub mod Retracting
