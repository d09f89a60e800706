pub mod HeaderPages
pub mod Late
pub mod HeadPage
pub mod CommentPage
pub mod Fitting
