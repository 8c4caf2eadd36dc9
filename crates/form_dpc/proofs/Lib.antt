pub mod FormDpcLaws
pub mod PastLaws
