pub mod PushWords
