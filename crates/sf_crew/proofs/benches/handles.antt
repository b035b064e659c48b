pub mod JoinedHandles
