-- Read in this order: Items and Catalogues, the messages of a publication; Lookups, Records and Handlers, the locale records
-- and the handlers of an edition; Edition, the fold of a log; Sizes, what changes count for and which are refused;
-- Equality. Order, RecordMap and Kept are for private clauses.
pub mod Items
pub mod Catalogues
pub mod Edition
pub mod Lookups
pub mod Records
pub mod Handlers
pub mod RecordMap
pub mod Sizes
pub mod Order
pub mod Kept
pub mod Equality
