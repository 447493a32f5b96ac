use Rattle.part_polygons.proofs.PolygonPoints.{polygon_points, polygon_even_odd}
use Rattle.part_polygons.proofs.laws.point_law.Goals as goal

pub returns-clause-in_polygon : goal.returns-clause-in_polygon
returns-clause-in_polygon c = polygon_points

pub returns-clause-even_odd : goal.returns-clause-even_odd
returns-clause-even_odd c = polygon_even_odd
