pub mod Texts
pub mod Replies
pub mod Transcripts
pub mod Scripts
pub mod Serving
pub mod Telling
