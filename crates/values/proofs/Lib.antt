-- The laws of the orders.
pub mod Orders
