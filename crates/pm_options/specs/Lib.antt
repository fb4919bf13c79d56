pub mod Program
pub mod Words
pub mod Asked
