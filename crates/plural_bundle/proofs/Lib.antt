pub mod BundleRule
pub mod BundleSections
pub mod ReadBundle
pub mod ValueOfBundle
pub mod BundleParts
pub mod UpToEnd
pub mod Versions
