use Rattle.face_walk.proofs.edge_tree.EdgeTree.nearest_below.Given as goal

abbrev pub ghosts-nearest_in_tree : goal.ghosts-nearest_in_tree
ghosts-nearest_in_tree a = record { edges = a.edges.now; places = a.places.now; point = a.p }
