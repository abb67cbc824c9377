-- The laws of least costs: lowering, conflicting edges, the first start.
pub mod Lowering
pub mod ConflictCosts
pub mod FirstStarts
pub mod LeastOfMembers
