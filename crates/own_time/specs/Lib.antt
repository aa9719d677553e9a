pub mod OwnTime
