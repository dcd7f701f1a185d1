-- The definitions that the contracts cite, in the order of the data's way.
pub mod Files
pub mod Numbers
