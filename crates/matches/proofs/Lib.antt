pub mod RunsBelowASide
pub mod NodesOfRightTables
pub mod TablesApart
pub mod FilledRows
pub mod FilledTables
pub mod AnsweredTicks
pub mod AddedEnds
