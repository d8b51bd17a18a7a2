pub mod BoundLaws
pub mod CertifyLaws
pub mod LivingLaws
pub mod SoughtLaws
pub mod WithinLaws
