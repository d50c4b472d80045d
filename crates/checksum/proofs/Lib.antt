pub mod ChecksumLaws
