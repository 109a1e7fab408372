pub mod MapQuestion
