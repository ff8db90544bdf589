-- The laws of the vocabulary, by file; each stands over the definitions of specs/ alone.
pub mod TestLaws
pub mod SumLaws
pub mod ListLaws
pub mod PartLaws
pub mod SignedLaws
pub mod QuotaLaws
pub mod RoundingLaws
pub mod CheckLaws
pub mod ChainLaws
