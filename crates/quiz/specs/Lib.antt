pub mod Quiz
