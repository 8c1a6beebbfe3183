pub mod Chacha
