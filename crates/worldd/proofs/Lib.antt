mod GrammarLemmas
mod OptionLemmas
