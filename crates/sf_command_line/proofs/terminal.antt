pub mod TerminalLemmas
