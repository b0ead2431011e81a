-- Where a seek lands, then that it has one answer. Staging step by step, then what each step does, then a whole write in closed form.
pub mod Seek
pub mod SeekLaws
pub mod Staging
pub mod StagingLaws
pub mod WrittenLaws
