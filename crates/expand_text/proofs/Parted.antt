-- The trees behind a part, and the front of a tree that a walk goes through.
use Rattle.std.proofs.Common.{◌≡◌, suc, Bool, true, false, cond, refl, ap, sym}
use Rattle.tt.specs.Forest.{Forest, Root, end, leaf, node, join, size}
use Rattle.tt.specs.Gluing.{after_trees}
use Rattle.expand_items.proofs.ManyTrees.{after_more}
use Rattle.expand_text.specs.declared.part.Part.{Part}
use Rattle.tt.specs.TreeWalks.{IsFront}
use Rattle.tt_base.specs.Unflat.{join-end}
use Rattle.expand_items.specs.Expressions.{is_last_semicolon, without_semicolon}
use Rattle.expand_text.specs.Meaning.{body}
use Rattle.expand_text.specs.Parts.{more_in, trees_in}

-- They are those behind its trees and the `;`, if that is a part of it.
pub after_part : (it : Part) (trees : Forest) → after_trees (more_in it) (after_trees it.len trees) ≡ after_trees (trees_in it) trees
after_part it trees = by it.semicolon
  where
    by : (semicolon : Bool) → after_trees (cond semicolon 1 0) (after_trees it.len trees) ≡ after_trees (cond semicolon (suc it.len) it.len) trees
    by true = sym (after_more it.len trees)
    by false = refl

-- Trees without a `;` at their end are the first of these trees.
front_left : (trees : Forest) → (others : Forest) × (trees ≡ join (without_semicolon trees) others)
front_left end = (end, refl)
front_left (leaf it rest) = by (is_last_semicolon (leaf it rest)) (front_left rest)
  where
    by : (is_last : Bool) → (others : Forest) × (rest ≡ join (without_semicolon rest) others)
        → (others : Forest) × (leaf it rest ≡ join (cond is_last end (leaf it (without_semicolon rest))) others)
    by true left = (leaf it rest, refl)
    by false (others, is) = (others, ap (leaf it) is)
front_left (node delimiter children rest) = let (others, is) = front_left rest in (others, ap (node delimiter children) is)

-- What an arm made of a call is the front of its tree.
pub body_front : (is_statement : Bool) (tree : Root) → IsFront tree.children (size (body is_statement tree)) (body is_statement tree)
body_front true tree = (end, sym (join-end tree.children), refl)
body_front false tree = let (others, is) = front_left tree.children in (others, is, refl)
