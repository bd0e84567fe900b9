-- All worked examples together.
use Rattle.worked_examples.specs.Collections.{Collections}
use Rattle.worked_examples.specs.Tables.{Tables}

pub record Examples : Type 0 where
  pub tables : Tables
  pub collections : Collections
