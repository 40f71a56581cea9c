-- Listed: the hits of a search. Progress: how far it has come. Report: what closing it gives. Each has at most sixteen hits
-- and holds the proof, so that it is known of every search and closing, lent ones too. Assumes nothing.
use Rattle.std.specs.Prelude.{ℕ, ◌≤◌, Bool, List, length}
use Rattle.catalogue.specs.declared.findings.Hit.{Hit}
use Rattle.catalogue.specs.declared.findings.Named.{Named}
use Rattle.catalogue.specs.declared.inquiries.Inquiry.{Inquiry}
use Rattle.catalogue.specs.declared.searches.Phase.{Phase}

pub record Listed : Type 0 where
  -- in order
  pub items : List Hit
  pub few : length items ≤ 16

pub record Progress (P : Type 0) : Type 0 where
  -- of its seat
  pub mark : ℕ
  pub inquiry : Inquiry P
  pub phase : Phase
  -- so far, in order
  pub hits : List Hit
  -- how many records it looked at
  pub looked : ℕ
  -- how many of its steps were accepted
  pub steps : ℕ
  pub few : length hits ≤ 16

pub record Report : Type 0 where
  pub hits : List Named
  pub finished : Bool
  pub looked : ℕ
  pub steps : ℕ
  pub few : length hits ≤ 16
