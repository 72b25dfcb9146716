pub mod LevelTables
pub mod SingleBits
pub mod RowTables
pub mod LevelByLevel
pub mod RecordLists
pub mod NewGraphs
