pub mod NeverTwo
