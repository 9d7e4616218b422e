pub mod ServedLemmas
pub mod FolderRunLemmas
