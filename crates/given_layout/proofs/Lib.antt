pub mod RuledLaws
