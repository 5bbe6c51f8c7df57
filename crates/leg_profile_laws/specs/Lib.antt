pub mod WiderForms
pub mod SegmentMetal
