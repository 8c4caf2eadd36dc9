pub mod ThreadLaws
