-- What a dictionary says, without the places where it says it. Assumes nothing.
use Rattle.std.specs.Prelude.{ℕ, List}

-- a field of a block
pub record Field : Type 0 where
  pub tag : ℕ
  pub offset : ℕ
  pub since : ℕ
  pub type : ℕ
  pub presence : ℕ
  pub argument : List ℕ

-- a block: its declared length in bytes, and its fields
pub record Block : Type 0 where
  pub size : ℕ
  pub fields : List Field

-- a group: each of its entries is such a block
pub record Group : Type 0 where
  pub tag : ℕ
  pub block : Block

-- a data: at most so many bytes, behind a length of `prefix` bytes
pub record Data : Type 0 where
  pub tag : ℕ
  pub since : ℕ
  pub longest : ℕ
  pub prefix : ℕ

pub record Template : Type 0 where
  pub number : ℕ
  pub since : ℕ
  pub root : Block
  pub groups : List Group
  pub parts : List Data

pub record Dictionary : Type 0 where
  pub layout : ℕ
  pub schema : ℕ
  pub version : ℕ
  pub templates : List Template
