pub mod LineShapes
pub mod ReadImage
pub mod PrintedRows
pub mod RowRoundTrip
pub mod ImageRoundTrip
pub mod PlainLines
pub mod ImageLength
