pub mod WaiterLaws
