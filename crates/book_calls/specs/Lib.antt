pub mod BookCalls
