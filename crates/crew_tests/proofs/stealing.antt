pub mod Twos
