pub mod TreeLaws
pub mod IndexTreeLaws
pub mod FaultLaws
pub mod ValueLaws
pub mod GitLaws
