-- What walking back promises: the survivor of a flat name, and the answer; what its search is given; and what it and flattening are to each other.
pub mod Origins
pub mod Search
pub mod Again
