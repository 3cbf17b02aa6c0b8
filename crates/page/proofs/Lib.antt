pub mod FolderLemmas
