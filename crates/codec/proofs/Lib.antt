pub mod WindowLaws
pub mod PenLaws
pub mod StreamLaws
pub mod WriterLaws
pub mod ReaderLaws
