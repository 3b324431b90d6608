pub mod SourceName
