-- Numbers multiplied by a power of two, exactly (`Times`): what is computed of them is multiplied, too.
pub mod Times
pub mod Squares
pub mod Products
