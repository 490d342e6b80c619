pub mod EventLaw
pub mod KeyLaws
pub mod DescribeLaws
pub mod OneLaws
pub mod SameKeys
